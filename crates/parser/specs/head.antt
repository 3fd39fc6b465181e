pub mod Header
pub mod Views
