mod Naming
mod Seeking
pub mod Denying
