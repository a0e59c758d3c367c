pub mod Typed
pub mod Window
