-- Demand 3: sequences of calls against one plain directory. These say it, and Theorems and Images of proofs/ are the theorems:
pub mod Directory
pub mod Run
pub mod Told
pub mod Asked
-- These prove it, in this order, and the rest of proofs/.
pub mod DirectoryLaws
pub mod NamedLaws
pub mod AskedLaws
pub mod Picks
pub mod Members
pub mod Held
pub mod Puts
pub mod RoundTwo
pub mod Near
pub mod Removal
pub mod Settled
pub mod Goes
pub mod Start
pub mod Sized
pub mod Reach
