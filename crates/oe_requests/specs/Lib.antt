pub mod Extents
pub mod Parameters
pub mod Periods
pub mod RunningSums
pub mod Requests
pub mod Labels
pub mod Operations
pub mod PlainRequests
