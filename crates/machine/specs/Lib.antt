-- What a reader opens, in this order.
pub mod State
pub mod Memory
pub mod Lanes
pub mod Step
pub mod Answers
pub mod TwoRuns
pub mod OffLanes
pub mod VectorFile
pub mod Masks
pub mod ControlWord
pub mod Bytes
pub mod Rows
pub mod Theorems
