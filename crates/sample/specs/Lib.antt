pub mod Depth
pub mod Numbers
pub mod Laws
