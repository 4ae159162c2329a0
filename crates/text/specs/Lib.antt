-- What a reader opens.
pub mod Text
-- Used by the code.
pub mod Put
