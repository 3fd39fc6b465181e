pub mod Lists
pub mod Blocks
pub mod Rooms
pub mod Whole
