pub mod Each
pub mod InsertLemmas
pub mod DefaultLemmas
pub mod ResolvingLemmas
pub mod ExpansionLemmas
mod Worked
pub mod JudgeLemmas
pub mod CycleLemmas
pub mod CodeLemmas
pub mod ClearedLemmas
pub mod KnowsLemmas
pub mod FaultLemmas
pub mod StandingLemmas
pub mod ExpandLemmas
pub mod RefusalLemmas
pub mod NoCallLemmas
