pub mod Asked
pub mod Scripts
