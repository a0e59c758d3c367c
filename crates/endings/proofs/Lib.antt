pub mod Endings
pub mod Ends
pub mod Once
