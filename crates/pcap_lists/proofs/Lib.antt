pub mod Counted
pub mod Once
