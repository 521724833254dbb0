pub mod Widths
pub mod Puts
pub mod Once
