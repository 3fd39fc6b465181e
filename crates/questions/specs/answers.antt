pub mod Code
pub mod Read
pub mod Size
pub mod Refusing
