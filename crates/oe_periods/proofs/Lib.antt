mod CivilLemmas
pub mod PartLemmas
pub mod PeriodLemmas
pub mod SumLemmas
mod Worked
