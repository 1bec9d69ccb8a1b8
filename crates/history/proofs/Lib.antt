-- The theorems are in Theorems and Images; the others prove them, in this order.
pub mod Theorems
pub mod Images
pub mod DirectoryLaws
pub mod ToldLaws
pub mod Removal
pub mod Settled
pub mod Goes
pub mod Reach
