pub mod Sorts
pub mod Dests
pub mod Shapes
pub mod Classes
pub mod Scanning
pub mod Walks
