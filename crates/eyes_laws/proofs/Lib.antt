pub mod Checks
pub mod Frames
pub mod Plain
