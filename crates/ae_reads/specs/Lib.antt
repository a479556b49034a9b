pub mod Answers
pub mod Views
pub mod Sights
pub mod Cells
