pub mod Marks
pub mod Edges
pub mod Links
pub mod Promises
pub mod Pruning
pub mod Keys
