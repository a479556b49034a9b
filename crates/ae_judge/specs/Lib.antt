pub mod Tabled
pub mod Views
pub mod Receivers
