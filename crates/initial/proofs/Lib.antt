-- Rows, Types, Writing, Listing and Once are what a crate above cites of the rows. The others serve the proofs of this one.
pub mod Rows
pub mod Types
pub mod Writing
pub mod Listing
pub mod Once
mod Jumping
mod Turning
mod Cutting
mod Checking
pub mod Taking
pub mod Joining
pub mod Bytes
