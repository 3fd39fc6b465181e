pub mod Places
pub mod Coefficients
mod Examples
