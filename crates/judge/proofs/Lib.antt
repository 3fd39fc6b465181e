pub mod Clean
pub mod Planes
pub mod Turns
