pub mod Ends
pub mod Productions
