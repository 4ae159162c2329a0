pub mod Written
pub mod Reading
pub mod Turns
pub mod Loops
pub mod Packed
