pub mod Calling
pub mod Creating
pub mod Answering
