pub mod Block
pub mod Going
pub mod through
