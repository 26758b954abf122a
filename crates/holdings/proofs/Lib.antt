-- The laws and theorems of `holdings`. Assumes nothing.
pub mod ArrivalLaws
pub mod TakenLaws
pub mod FormedLaws
pub mod Kept
pub mod SequenceLaws
pub mod Honest
pub mod Unique
