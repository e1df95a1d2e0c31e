pub mod Scripts
pub mod Memory
pub mod Entry
pub mod Reading
pub mod Laws
