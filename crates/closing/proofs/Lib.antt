pub mod Stated
pub mod Fairness
pub mod Carrying
pub mod Trying
pub mod Agreeing
pub mod Laying
