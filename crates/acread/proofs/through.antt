pub mod Blocks
pub mod Ends
pub mod Going
pub mod Codes
pub mod CodesEnd
pub mod CodesGoing
