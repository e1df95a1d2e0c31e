pub mod Setup
pub mod Opened
