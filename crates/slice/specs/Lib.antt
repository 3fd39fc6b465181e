pub mod Plane
pub mod Room
pub mod Calls
pub mod CallLists
pub mod Demand3
pub mod FirstBlocks
