-- The definitions that the contracts of `link` cite. Assumes nothing.
pub mod Numbers
pub mod Windows
pub mod Holdings
