pub mod Counted
pub mod Heads
pub mod Laws
pub mod Once
