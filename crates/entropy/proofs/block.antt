pub mod Places
pub mod Chain
pub mod Codes
pub mod Walk
mod Lowest
