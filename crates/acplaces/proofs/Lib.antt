pub mod Scan
pub mod Symbols
pub mod Going
pub mod Onward
pub mod Table
pub mod Zeros
