-- What a crate above cites of a run is that it has one result.
pub mod Once
mod Sums
mod Working
mod Swaps
mod Acts
mod Decides
mod Turns
mod Bounds
mod Trims
mod Owns
