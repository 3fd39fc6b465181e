mod Joined
pub mod Blocks
mod Examples
