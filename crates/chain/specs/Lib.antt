-- Demand 3 for the bench call: what its theorems (proofs/Theorems) speak of.
pub mod Chain
pub mod Follows
