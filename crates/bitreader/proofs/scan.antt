pub mod Rows
pub mod Bad
pub mod Codes
