pub mod Build
pub mod Views
pub mod streams
