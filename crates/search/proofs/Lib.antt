pub mod Answering
mod Spreading
mod Distances
mod Tracing
mod Emptied
