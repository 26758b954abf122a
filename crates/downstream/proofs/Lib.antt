-- The laws of what belongs to a receiving cluster, for this crate's proofs and those above it. Assumes nothing.
pub mod ColumnLaws
pub mod FormedLaws
pub mod ListLaws
pub mod RowLaws
pub mod SetLaws
pub mod Unique
