pub mod Modes
pub mod Working
pub mod Steps
pub mod Bounds
pub mod Owns
