-- What a reader opens, in this order.
pub mod Item
pub mod Replay
pub mod Report
pub mod Reports
pub mod Recorded
pub mod Rows
