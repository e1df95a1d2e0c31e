pub mod NineLemmas
pub mod RowLemmas
pub mod WidthLemmas
mod Worked
