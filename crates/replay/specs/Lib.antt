pub mod Runs
pub mod History
pub mod Law
pub mod Sums
pub mod Tokens
pub mod Records
