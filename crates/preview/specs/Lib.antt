pub mod Answer
pub mod row
pub mod report
