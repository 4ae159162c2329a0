-- What a reader opens: Format, Modes, Exact, Round, Operations, Comparison, in this order; Rows has the examples that are proved.
-- Work is for the code alone.
pub mod Format
pub mod Modes
pub mod Exact
pub mod Round
pub mod Operations
pub mod Comparison
pub mod Rows
pub mod Work
