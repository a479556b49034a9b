pub mod Contexts
pub mod Needed
