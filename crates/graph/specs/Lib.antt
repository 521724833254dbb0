pub mod Border
pub mod Notes
pub mod Promises
