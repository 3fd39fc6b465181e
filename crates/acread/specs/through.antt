pub mod Through
pub mod Codes
