pub mod Histories
pub mod Right
pub mod Tally
