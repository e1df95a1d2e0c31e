pub mod TurnsLemmas
pub mod CoreLemmas
pub mod PartsLemmas
pub mod FollowLemmas
pub mod NodeLemmas
pub mod SideLemmas
pub mod WidenLemmas
pub mod RunLemmas
pub mod WidthLemmas
pub mod SizeLemmas
pub mod HaloLemmas
pub mod TakeLemmas
pub mod FitLemmas
mod Worked
pub mod ScheduleLemmas
pub mod CrossLemmas
pub mod NumberWords
