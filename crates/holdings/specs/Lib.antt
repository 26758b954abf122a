-- The definitions that the contracts and theorems of `holdings` cite. Assumes nothing.
pub mod State
pub mod Arrival
pub mod Sequence
pub mod Examples
