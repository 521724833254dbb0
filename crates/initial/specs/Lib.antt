pub mod Rows
pub mod Turn
pub mod Promises
