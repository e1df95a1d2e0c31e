pub mod LinkLemmas
pub mod QueryLemmas
pub mod PageLemmas
pub mod Floats
mod Worked
