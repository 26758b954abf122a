-- The definitions that the contracts of `deal` cite. Assumes nothing.
pub mod Rounds
pub mod Dealing
pub mod Pairs
pub mod Examples
