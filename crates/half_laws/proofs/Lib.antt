-- Proved gathers the laws of specs/Laws.antt, Operated those of specs/Operations.antt, Compared those of specs/Comparison.antt; the
-- others are what they cite.
pub mod Sides
pub mod Grid
pub mod Fields
pub mod Delivered
pub mod Order
pub mod Exactness
pub mod Overflow
pub mod Underflow
pub mod Directed
pub mod Proved
pub mod Signed
pub mod Operated
pub mod Compared
