pub mod Turns
pub mod Batches
