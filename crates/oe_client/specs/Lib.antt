pub mod Verbs
pub mod Arguments
pub mod Commands
pub mod Calls
pub mod Pages
pub mod Laws
