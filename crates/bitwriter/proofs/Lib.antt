pub mod Laid
pub mod Writer
pub mod Same
mod Filling
mod Words
mod RunWord
pub mod Pairs
