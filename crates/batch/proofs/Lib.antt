pub mod Digits
pub mod Rows
pub mod Grammars
pub mod Lines
pub mod Shorts
