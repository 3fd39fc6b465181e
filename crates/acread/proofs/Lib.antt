pub mod Turn
pub mod Going
pub mod Table
pub mod Rows
