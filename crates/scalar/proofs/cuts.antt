pub mod Nearest
pub mod Widths
