pub mod Lines
pub mod Going
pub mod Input
pub mod Runs
pub mod Takes
