pub mod Blocks
pub mod Borders
pub mod Convolution
pub mod Kernels
pub mod Rows
pub mod Strips
pub mod Totals
