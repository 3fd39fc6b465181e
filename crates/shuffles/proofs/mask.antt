pub mod Mask
pub mod Weights
