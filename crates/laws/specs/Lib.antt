pub mod Lists
pub mod Options
