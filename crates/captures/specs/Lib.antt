pub mod Turned
pub mod Typed
