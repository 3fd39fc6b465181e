pub mod Good
pub mod verdict
