pub mod Ahead
pub mod Batches
pub mod Fractions
pub mod LawLemmas
pub mod Leaves
pub mod Lengths
pub mod OneCube
pub mod ReadBack
pub mod Records
pub mod Sending
pub mod Shapes
pub mod Spelled
pub mod Spells
pub mod Texts
pub mod Values
mod Worked
pub mod WrittenCube
pub mod MemberLemmas
