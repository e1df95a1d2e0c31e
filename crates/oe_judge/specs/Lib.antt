pub mod Judged
pub mod Texts
