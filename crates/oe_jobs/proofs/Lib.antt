mod Worked
mod MachineLemmas
mod ChangeLemmas
mod RoomLemmas
pub mod LineLemmas
mod ValidLemmas
mod KeepLemmas
pub mod PutLemmas
mod StoredLemmas
pub mod RanLemmas
mod DecideLemmas
mod DueLemmas
mod NumberLemmas
mod TextLemmas
pub mod Floats
