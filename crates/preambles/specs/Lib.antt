pub mod Preamble
