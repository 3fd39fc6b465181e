pub mod Line
pub mod Lanes
