pub mod Quantise
pub mod one
pub mod scan
pub mod Paired
pub mod Rows
