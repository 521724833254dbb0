pub mod Branch
pub mod Lists
pub mod Members
pub mod Modes
pub mod Totals
