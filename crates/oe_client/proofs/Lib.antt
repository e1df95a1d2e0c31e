pub mod Deliveries
pub mod Offsets
mod FollowLemmas
mod PageLemmas
mod Worked
mod Writable
