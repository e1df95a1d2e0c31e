mod PartLemmas
pub mod Spelled
