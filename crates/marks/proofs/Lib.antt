-- The laws of marks, for this crate's proofs and those above it. Assumes nothing.
pub mod MaskLaws
pub mod RunLaws
pub mod HeldLaws
pub mod SetLaws
pub mod FirstLaws
pub mod AfterLaws
pub mod GatheredLaws
pub mod Unique
