pub mod Shuffles
pub mod places
pub mod mask
