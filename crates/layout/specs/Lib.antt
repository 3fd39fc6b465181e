pub mod Geometry
pub mod Views
