pub mod RunningLemmas
mod StoredLemmas
pub mod ProcessLemmas
pub mod AssetLemmas
pub mod IdLemmas
mod IdleLemmas
mod LoopLemmas
mod CountLemmas
mod PairLemmas
mod JobLemmas
mod SameLemmas
