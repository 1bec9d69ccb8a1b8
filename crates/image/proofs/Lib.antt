pub mod Matching
pub mod Sequence
pub mod Shapes
mod All
pub mod Members
pub mod Suites
mod Padding
pub mod RoundTrip
pub mod Lengths
mod Putting
mod Writing
mod Reading
mod Rows
mod Words
mod Voting
mod Loads
pub mod Determined
