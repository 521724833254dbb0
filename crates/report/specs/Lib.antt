pub mod Counts
pub mod Scanning
pub mod Numbers
pub mod Merging
pub mod Calls
