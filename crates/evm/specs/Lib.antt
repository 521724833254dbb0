pub mod Rows
pub mod Step
pub mod Argument
pub mod Walker
