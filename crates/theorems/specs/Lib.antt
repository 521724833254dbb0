pub mod Reached
pub mod Needs
