pub mod Rows
pub mod Parts
pub mod rounding
pub mod sides
pub mod steps
