pub mod Layout
pub mod Reader
pub mod Sized
pub mod Writer
pub mod Steps
