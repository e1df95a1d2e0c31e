mod WorkedWords
mod WorkedRequests
mod WorkedFilters
mod WorkedCells
mod WorkedLists
mod WorkedJoins
mod WorkedGraphs
mod WorkedReach
pub mod ReachLemmas
mod WorkedRows
pub mod StandsLemmas
pub mod LinkLemmas
pub mod WalkLemmas
pub mod ReadLemmas
pub mod DistinctLemmas
pub mod KindLemmas
pub mod VerdictLemmas
pub mod InputLemmas
pub mod BuildableLemmas
pub mod JudgeLemmas
pub mod SearchLemmas
pub mod KeptLemmas
pub mod CheckLemmas
pub mod ReferenceLemmas
pub mod LoadLemmas
pub mod CheckedLemmas
pub mod CountLemmas
pub mod WholeLemmas
pub mod CrossLemmas
pub mod SharedLemmas
pub mod HeldLemmas
pub mod TableLemmas
