pub mod Flow
pub mod Queue
pub mod Main
pub mod Course
