pub mod Queries
pub mod Pages
pub mod Estimates
pub mod Laws
