pub mod Checks
pub mod Laws
pub mod Linear
pub mod Once
pub mod Standard
pub mod Turns
pub mod Word
pub mod Xor
