pub mod Along
pub mod Leasts
pub mod Firsts
pub mod Filled
pub mod Rowing
pub mod Rounding
pub mod Settling
