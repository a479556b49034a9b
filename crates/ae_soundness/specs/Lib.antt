pub mod Fits
pub mod Laws
pub mod Returns
pub mod Whole
