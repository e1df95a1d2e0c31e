pub mod Json
pub mod Codes
pub mod Bodies
pub mod Collections
pub mod Jobs
pub mod Logs
pub mod Answers
pub mod Laws
