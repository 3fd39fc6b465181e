pub mod Clamps
pub mod Lists
