pub mod Chains
pub mod Levels
pub mod Answers
pub mod Rowed
