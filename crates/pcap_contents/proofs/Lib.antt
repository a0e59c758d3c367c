pub mod Once
pub mod Turns
