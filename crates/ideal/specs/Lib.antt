-- The theory behind the directory: what it speaks of, with its first laws, in the order in which they are to be read. The
-- theorems, why what a read set shows is what was written, are in proofs/.
pub mod Places
pub mod Tiles
pub mod Votes
pub mod Best
pub mod Invariant
pub mod Change
pub mod Region
pub mod Ends
pub mod Remove
pub mod Neighbours
pub mod Start
pub mod Forget
