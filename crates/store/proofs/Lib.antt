-- What the functions' proofs cite.
pub mod Kept
pub mod Stored
pub mod Upper
