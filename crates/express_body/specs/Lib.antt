pub mod Body
