-- The definitions that the contracts of `downstream` cite. Assumes nothing.
pub mod State
pub mod Formed
pub mod Rows
