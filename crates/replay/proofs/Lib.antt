pub mod Keeps
pub mod Tally
pub mod Agree
pub mod Rounds
pub mod Worked
pub mod Holding
pub mod Recording
