pub mod Named
pub mod Classes
