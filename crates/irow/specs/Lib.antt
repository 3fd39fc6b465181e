pub mod RowPass
pub mod Stages
pub mod pairs
pub mod sums
