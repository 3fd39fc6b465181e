pub mod Pass
pub mod Place
pub mod sums
