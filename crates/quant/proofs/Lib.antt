pub mod Signs
pub mod Blocks
pub mod Bounds
mod Entry
mod Rows
mod Unsigned
pub mod Vectors
mod Paired
