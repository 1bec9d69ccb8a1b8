mod Numbers
mod Stepping
pub mod Determined
