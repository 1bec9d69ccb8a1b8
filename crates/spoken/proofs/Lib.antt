-- Demand 3 for the line program. These say it:
pub mod Theorems
-- This proves it.
pub mod Says
