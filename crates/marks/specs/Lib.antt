-- The definitions that the contracts of `marks` cite. Assumes nothing.
pub mod Masks
pub mod Held
pub mod Gathered
pub mod Examples
