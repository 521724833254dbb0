pub mod Links
pub mod Rows
pub mod Writes
pub mod Promises
