pub mod CellLemmas
pub mod ChunkLemmas
pub mod NumberLemmas
pub mod PartLemmas
pub mod RangeLemmas
pub mod RunLemmas
pub mod TilingLemmas
pub mod VisitLemmas
pub mod WholeLemmas
pub mod WindowLemmas
mod Worked
