pub mod Mirror
pub mod Level
pub mod Joined
