pub mod AskedLemmas
pub mod Explained
pub mod NodeLemmas
pub mod Tests
