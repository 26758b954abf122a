-- The definitions that the contracts of `records` cite. Assumes nothing.
pub mod ByKind
pub mod Answers
pub mod Reading
pub mod Writing
pub mod Examples
