pub mod Continuing
pub mod Once
