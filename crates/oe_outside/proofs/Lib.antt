pub mod Causes
mod Inputs
pub mod Runs
mod Scripts
pub mod Stores
pub mod Streams
mod Turned
pub mod Worked
