pub mod block
pub mod plane
pub mod short
