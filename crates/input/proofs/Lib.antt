-- The laws of the input, for this crate's proofs and those above it. Assumes nothing.
pub mod RecordLaws
pub mod BuildLaws
pub mod BuildIs
pub mod Unique
