pub mod Laws
pub mod Once
pub mod Promise
pub mod Right
