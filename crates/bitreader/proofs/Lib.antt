pub mod Leads
pub mod Spans
pub mod Looks
pub mod Seens
pub mod Longs
pub mod Signs
