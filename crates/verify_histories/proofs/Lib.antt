pub mod Histories
pub mod Ranges
