pub mod Rows
pub mod Promises
