-- The definitions that the contracts of `words` cite. Assumes nothing.
pub mod Places
pub mod Taken
pub mod Straight
pub mod Entries
pub mod Put
