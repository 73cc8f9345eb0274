pub mod Steps
pub mod Fillings
