pub mod Columns
pub mod Counted
pub mod Order
pub mod Progress
pub mod Reduction
pub mod Value
