pub mod ArgumentLemmas
pub mod ElementLemmas
pub mod PartLemmas
pub mod ReferenceLemmas
pub mod SearchLemmas
pub mod ReferenceGraphLemmas
pub mod StateLemmas
pub mod SortedWalkLemmas
mod Views
pub mod Depths
mod Finds
pub mod LeastLemmas
mod NamesLemmas
mod WalkLemmas
pub mod ReadLemmas
pub mod AsReadLemmas
mod PrintableLemmas
pub mod ValidLemmas
pub mod ReadAgain
mod PrintLemmas
mod Straight
mod PrintBack
pub mod ResolvedLemmas
mod Worked
