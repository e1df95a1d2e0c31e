pub mod Words
pub mod Lines
pub mod Ends
pub mod Lists
pub mod Answer
