pub mod Figures
pub mod Once
pub mod Texts
