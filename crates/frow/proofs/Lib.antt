pub mod Wrap
pub mod Lanewise
pub mod Whole
