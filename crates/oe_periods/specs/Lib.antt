pub mod Calendar
pub mod Periods
pub mod Sums
