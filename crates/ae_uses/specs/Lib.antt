pub mod Calls
pub mod Footprint
pub mod Used
pub mod Simple
pub mod Joined
pub mod Opened
pub mod Outside
