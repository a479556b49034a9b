pub mod Frames
pub mod Tasks
pub mod Results
pub mod Calling
