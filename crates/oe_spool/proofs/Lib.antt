pub mod CubeLemmas
pub mod CubeRecords
pub mod KeptLemmas
pub mod LeastLemmas
pub mod LeastOnWindow
pub mod RunRecords
pub mod ChunkLists
