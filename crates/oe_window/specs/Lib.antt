pub mod Cells
pub mod Chunks
pub mod Layouts
pub mod Parts
pub mod Runs
pub mod Windows
