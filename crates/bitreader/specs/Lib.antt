pub mod Cursor
pub mod words
pub mod scan
