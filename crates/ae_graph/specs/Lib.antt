pub mod Rising
pub mod Opened
pub mod Graph
pub mod Succs
pub mod GraphText
pub mod Drawn
