pub mod Ask
pub mod Numbers
pub mod Limits
pub mod Refusals
