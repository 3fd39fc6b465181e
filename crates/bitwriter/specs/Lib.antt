pub mod Put
pub mod Pairs
