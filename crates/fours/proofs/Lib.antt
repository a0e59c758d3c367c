pub mod Once
pub mod Words
