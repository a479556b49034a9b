pub mod Slices
pub mod Sides
pub mod Reading
pub mod Productions
pub mod Laws
