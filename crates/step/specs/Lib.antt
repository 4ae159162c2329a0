-- What the contracts of the private functions say, of what the crates below compute; the step's own is machine's `step`.
pub mod Work
