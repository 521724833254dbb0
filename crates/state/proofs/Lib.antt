-- States, Reach and Composing are what a crate above cites of stored states; Cells, Syms and Symbols of their cells and symbols.
pub mod States
pub mod Reach
pub mod Composing
pub mod Homes
pub mod Comparing
pub mod Syms
pub mod Cells
pub mod Symbols
pub mod Once
pub mod Puts
