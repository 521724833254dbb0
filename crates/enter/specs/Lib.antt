pub mod Lent
pub mod Fits
pub mod Enters
