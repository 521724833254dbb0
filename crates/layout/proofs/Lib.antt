-- Once and Types are what a crate above cites of the rows. The other serves the proofs of this one.
pub mod Once
pub mod Types
mod Writing
