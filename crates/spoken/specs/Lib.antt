-- Demand 3 for the line program: what its theorems (proofs/Theorems) speak of.
pub mod Lines
pub mod Says
