pub mod Bits
pub mod Laws
pub mod Once
pub mod Sizes
pub mod Unbeaten
