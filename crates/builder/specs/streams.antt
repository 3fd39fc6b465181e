pub mod Put
pub mod Views
