pub mod Laws
pub mod Translated
pub mod Written
