pub mod Bits
pub mod Signed
pub mod Read
pub mod Lay
pub mod ByteRow
