pub mod Rings
pub mod Steps
pub mod Rounds
pub mod Parties
