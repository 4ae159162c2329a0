-- What a reader opens, in this order: List is the instructions' table, Fields the fields, Decode the refusals and the whole. Sizes,
-- Scalar and Compared have theorems about them.
pub mod Bits
pub mod List
pub mod Fields
pub mod Decode
pub mod Sizes
pub mod Scalar
pub mod Compared
