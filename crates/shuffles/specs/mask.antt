pub mod Mask
