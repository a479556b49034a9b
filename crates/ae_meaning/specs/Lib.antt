pub mod Values
pub mod Meaning
pub mod Running
pub mod Judged
pub mod Frame
pub mod Order
pub mod Endings
