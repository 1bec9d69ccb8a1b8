pub mod Words
pub mod Line
pub mod Scan
pub mod Answer
pub mod Asked
