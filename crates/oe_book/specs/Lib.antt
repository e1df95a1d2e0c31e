pub mod Assets
pub mod Laws
pub mod Process
pub mod Parts
pub mod Jobs
