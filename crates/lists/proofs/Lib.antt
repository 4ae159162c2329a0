pub mod Tests
pub mod Tables
pub mod First
pub mod Binary
pub mod Filling
