pub mod Results
pub mod Seen
