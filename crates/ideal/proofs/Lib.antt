-- The theorems of the theory, in the order in which they are to be read.
pub mod Seen
pub mod Lookup
pub mod Change
pub mod RegionKeeps
pub mod Insert
pub mod Remove
pub mod Neighbours
pub mod Mirror
pub mod Calls
