pub mod Forms
pub mod Words
pub mod Small
pub mod Texts
pub mod Top
pub mod LaterTexts
