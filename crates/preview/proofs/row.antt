pub mod Going
pub mod Rows
