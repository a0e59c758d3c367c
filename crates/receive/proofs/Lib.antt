pub mod Cases
pub mod Known
pub mod Laws
pub mod Lengths
pub mod Once
pub mod Promise
