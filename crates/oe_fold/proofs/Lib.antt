pub mod ColumnLemmas
pub mod KindLemmas
pub mod OrderLemmas
pub mod ReductionLemmas
pub mod SettleLemmas
pub mod SortedLemmas
pub mod TallyLemmas
pub mod UniqueLemmas
pub mod ValueLemmas
mod Worked
