pub mod Rings
pub mod Stepping
pub mod Clearing
pub mod Lowering
pub mod Graphs
