pub mod Below
pub mod Width
pub mod Bytes
pub mod Places
pub mod Appending
pub mod Packing
pub mod Answers
pub mod Reread
pub mod Front
pub mod Filling
pub mod Determined
mod Shifts
mod Within
mod Storing
