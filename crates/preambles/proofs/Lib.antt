pub mod Leading
pub mod Fours
pub mod Once
