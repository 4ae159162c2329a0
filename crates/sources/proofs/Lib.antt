-- What the functions' proofs cite.
pub mod Sets
pub mod Words
