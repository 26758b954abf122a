-- The definitions that the contracts of `steps` cite. Assumes nothing.
pub mod Columns
pub mod Stored
pub mod Stepping
