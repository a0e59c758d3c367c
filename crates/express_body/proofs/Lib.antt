pub mod Laws
pub mod Lies
pub mod Once
pub mod Promise
