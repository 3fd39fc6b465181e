pub mod Sides
pub mod Order
