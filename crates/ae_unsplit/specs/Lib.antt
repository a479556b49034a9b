pub mod Unsplit
