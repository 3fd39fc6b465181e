pub mod Wrap
pub mod Sums
pub mod Rows
