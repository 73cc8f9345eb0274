pub mod Groups
pub mod Walks
