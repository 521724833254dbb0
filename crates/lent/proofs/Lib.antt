pub mod Parts
pub mod Patch
pub mod Numbers
pub mod Stored
pub mod Holds
pub mod Runs
pub mod Once
