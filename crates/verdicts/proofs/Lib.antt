-- The laws of the verdicts' bytes, for this crate's proofs and those above it. Assumes nothing.
pub mod DealtLaws
pub mod WriteLaws
