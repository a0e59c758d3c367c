pub mod Numbered
pub mod Whole
