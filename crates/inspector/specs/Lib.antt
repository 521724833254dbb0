pub mod Edges
pub mod Tables
pub mod Paths
pub mod Symbols
pub mod Judging
pub mod Entries
pub mod Listing
pub mod Calling
