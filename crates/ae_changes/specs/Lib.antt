pub mod Changes
pub mod Bodies
pub mod Whole
pub mod Apart
pub mod Stays
