-- What a reader opens, in this order.
pub mod Command
pub mod Runs
pub mod Work
