pub mod Collections
pub mod Kinds
