-- The laws of dealing, for this crate's proofs and those above it. Assumes nothing.
pub mod SlotLaws
pub mod DealerLaws
pub mod JudgeLaws
pub mod PairLaws
pub mod DealIsWhole
pub mod Unique
