pub mod Defaults
pub mod NameFaults
pub mod Expansion
