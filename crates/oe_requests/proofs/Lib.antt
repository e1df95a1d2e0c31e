pub mod ReadingLemmas
pub mod IntervalLemmas
pub mod NameLemmas
pub mod EpsgLemmas
pub mod KernelLemmas
pub mod InsideLemmas
pub mod RunningSumLemmas
