pub mod Lengths
pub mod Once
pub mod Turns
