-- What a reader opens: Values, Laws, Operations, then Comparison. proofs/Proved.antt, Operated.antt and Compared.antt have the proof of each law.
pub mod Values
pub mod Laws
pub mod Operations
pub mod Comparison
