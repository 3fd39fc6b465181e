pub mod Fives
pub mod Alike
pub mod Ten
pub mod Held
pub mod Entry
