pub mod Calls
pub mod Orders
pub mod Readback
pub mod Window
