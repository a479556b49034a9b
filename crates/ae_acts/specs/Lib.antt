pub mod Acts
pub mod Law
pub mod Doing
pub mod Made
