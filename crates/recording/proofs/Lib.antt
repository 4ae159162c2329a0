pub mod Tests
pub mod Turns
pub mod Reports
pub mod Recorded
pub mod Rows
