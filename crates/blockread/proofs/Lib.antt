pub mod Split
pub mod Good
mod Flat
