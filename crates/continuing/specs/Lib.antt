pub mod Continuing
pub mod Tests
