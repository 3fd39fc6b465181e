pub mod Bounds
pub mod Examples
pub mod column
pub mod columns
