pub mod Least
pub mod Spooled
pub mod Laws
