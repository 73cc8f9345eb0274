pub mod Words
pub mod Asks
pub mod Denials
pub mod Standings
pub mod Tells
