pub mod four
pub mod order
pub mod of_call
pub mod answers
