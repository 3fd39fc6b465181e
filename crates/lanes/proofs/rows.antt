pub mod Stored
pub mod Loops
