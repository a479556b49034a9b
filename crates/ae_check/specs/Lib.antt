pub mod Ready
pub mod Simple
pub mod Blocks
pub mod Methods
