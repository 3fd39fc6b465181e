pub mod Frame
pub mod Views
pub mod streams
pub mod head
