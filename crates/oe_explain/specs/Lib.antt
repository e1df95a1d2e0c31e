pub mod Asked
pub mod AtFault
pub mod Explanation
pub mod Words
