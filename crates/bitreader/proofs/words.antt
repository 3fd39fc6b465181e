pub mod Num
pub mod Words
