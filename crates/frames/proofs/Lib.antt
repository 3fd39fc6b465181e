pub mod Put
pub mod Back
pub mod Read
pub mod Views
pub mod Built
pub mod Calls
pub mod Orders
