-- The definitions that the contracts of `input` cite. Assumes nothing.
pub mod Input
pub mod Build
