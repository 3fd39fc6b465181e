pub mod Divisor
pub mod Reciprocal
pub mod Entries
pub mod Zigzag
pub mod Quality
