-- The definitions that the contracts of `hamilton` cite. Assumes nothing.
pub mod Hamilton
pub mod Counts
pub mod Examples
