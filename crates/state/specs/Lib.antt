pub mod Symbols
pub mod Cells
pub mod Stored
pub mod Composed
pub mod Homes
pub mod Compared
