pub mod CatalogueDimsLemmas
pub mod CatalogueLawLemmas
pub mod CatalogueLemmas
pub mod PieceLemmas
pub mod SizeLemmas
pub mod HeadSizes
pub mod HeadText
pub mod OneHead
pub mod SourceLemmas
pub mod StoredLemmas
mod Worked
pub mod ContentLemmas
pub mod GeneratedLemmas
pub mod OpenLemmas
pub mod PackedLemmas
pub mod PackingLemmas
pub mod RepackLemmas
pub mod RepackedLemmas
