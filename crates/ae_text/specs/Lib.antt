pub mod Causes
pub mod Calls
pub mod Whole
pub mod Rules
pub mod Tokens
pub mod Scan
pub mod Numbers
