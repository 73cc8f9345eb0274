pub mod Fitting
pub mod Passing
pub mod Shares
pub mod Directly
pub mod Memories
