pub mod Forward
pub mod column
pub mod level_shift
pub mod load
