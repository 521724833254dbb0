pub mod Buffers
pub mod Marks
pub mod Parts
pub mod Rows
pub mod Fields
pub mod Records
pub mod Edges
pub mod Seens
