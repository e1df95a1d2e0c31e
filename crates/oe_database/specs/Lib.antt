pub mod Each
pub mod Statements
pub mod Makes
pub mod Inside
pub mod Loads
