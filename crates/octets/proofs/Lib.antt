pub mod Copy
pub mod Laid
pub mod Once
