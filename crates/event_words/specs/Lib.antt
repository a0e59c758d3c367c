pub mod Events
pub mod HandedOn
