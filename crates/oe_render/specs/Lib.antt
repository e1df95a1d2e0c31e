pub mod Backwards
pub mod CubeText
pub mod Laws
pub mod Rendered
pub mod Seen
pub mod Stored
pub mod Text
pub mod Members
