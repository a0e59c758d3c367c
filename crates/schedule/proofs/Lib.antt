pub mod Calls
pub mod Enough
pub mod Roundtrip
pub mod Times
