pub mod Inside
pub mod Laid
pub mod Readback
pub mod Rest
pub mod Whole
