pub mod plane
pub mod frame
