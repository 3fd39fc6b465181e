pub mod Laws
pub mod Fill
pub mod InRows
pub mod Wrap
pub mod Methods
pub mod Examples
