-- The laws of texts and lines, for this crate's proofs and those above it. Assumes nothing.
pub mod TextLaws
pub mod DigitLaws
pub mod LineLaws
pub mod SizeLaws
pub mod WalkLaws
pub mod Unique
