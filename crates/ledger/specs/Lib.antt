pub mod Debts
pub mod Between
pub mod Sound
pub mod States
pub mod Checks
pub mod Calls
pub mod Answers
pub mod Questions
