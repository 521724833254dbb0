pub mod Numbers
pub mod Told
pub mod Mapping
pub mod Calls
pub mod JsonCalls
pub mod Once
pub mod Running
