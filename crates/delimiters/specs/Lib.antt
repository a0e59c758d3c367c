pub mod Delimiters
