pub mod Productions
pub mod Blocks
pub mod Deciding
