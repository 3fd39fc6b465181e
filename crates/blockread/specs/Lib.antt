pub mod On
pub mod dc
