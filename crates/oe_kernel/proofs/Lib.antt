pub mod BorderLemmas
pub mod KindLemmas
pub mod NeedLemmas
mod ProgressLemmas
pub mod StripLemmas
pub mod SumLemmas
mod TotalLemmas
pub mod WindowLemmas
mod Worked
