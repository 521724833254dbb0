pub mod Overs
pub mod Sorted
pub mod Owned
pub mod Firsts
pub mod Printed
pub mod Once
pub mod Maps
