pub mod Heard
pub mod Laws
pub mod Once
