pub mod Changes
pub mod Stand
pub mod Targets
pub mod Parts
