-- Demand 3 for the bench call. These say it:
pub mod Theorems
-- These prove it, in this order.
pub mod Starts
pub mod Follows
