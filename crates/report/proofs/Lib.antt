pub mod Counted
pub mod Items
pub mod Scanned
pub mod Sums
pub mod Shares
pub mod Placed
pub mod Merged
pub mod Once
