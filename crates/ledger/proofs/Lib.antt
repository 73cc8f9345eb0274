pub mod Stacks
pub mod Restores
pub mod Shapes
pub mod Steps
pub mod Opens
pub mod Serves
