pub mod Beyond
pub mod Shorter
