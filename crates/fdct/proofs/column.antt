pub mod Lanewise
pub mod Columns
pub mod Puts
