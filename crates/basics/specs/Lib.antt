-- The definitions that every crate's contracts share. Assumes nothing.
pub mod Sums
pub mod Largest
pub mod Checks
pub mod Ranges
pub mod Bytes
pub mod Refusals
