pub mod Finding
pub mod Showing
pub mod Comparing
pub mod Playing
pub mod Going
pub mod Loading
