pub mod Inverse
pub mod column
pub mod columns
