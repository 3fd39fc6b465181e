pub mod Back
pub mod Steps
pub mod Scan
