pub mod Contents
pub mod Good
pub mod Laws
pub mod Once
