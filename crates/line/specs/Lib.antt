pub mod Standing
pub mod Lent
pub mod Laws
pub mod Determined
