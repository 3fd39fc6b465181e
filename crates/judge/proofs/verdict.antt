pub mod Laws
pub mod Planes
pub mod Slices
