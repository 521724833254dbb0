pub mod Blocks
pub mod Places
pub mod Finding
pub mod Edges
pub mod Stepping
pub mod Walking
pub mod Following
