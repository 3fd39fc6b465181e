pub mod Paint
pub mod Samples
pub mod row
