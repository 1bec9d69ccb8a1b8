pub mod Holding
pub mod Ends
pub mod Going
pub mod Steps
pub mod Whole
pub mod Bounds
