-- What a reader opens, in this order.
pub mod Refusal
pub mod Version
pub mod Numbers
pub mod File
pub mod Form
pub mod Saved
pub mod Refusals
pub mod Sizes
pub mod Trips
pub mod Rows
