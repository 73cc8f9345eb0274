pub mod Sums
pub mod Bounds
pub mod Rooms
pub mod Booked
pub mod Sends
pub mod Tables
pub mod Chains
