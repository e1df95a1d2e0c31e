mod BlockLemmas
mod ByteLemmas
pub mod CivilLemmas
pub mod CubeLemmas
pub mod DistinctLemmas
pub mod FlatMapLemmas
pub mod IndexLemmas
pub mod InstantLemmas
pub mod ListsLemmas
pub mod NameOrderLemmas
pub mod OrderLemmas
mod PatternLemmas
pub mod ReaderLemmas
pub mod RuleLemmas
mod RunLemmas
pub mod ShapeLemmas
pub mod SpelledLemmas
pub mod SpellingLemmas
mod Worked
