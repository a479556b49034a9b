pub mod Roots
pub mod Made
pub mod Callee
pub mod Param
pub mod Called
