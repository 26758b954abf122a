-- The laws of the words, for this crate's proofs and those above it. Assumes nothing.
pub mod ColumnLaws
pub mod StraightLaws
pub mod ClusterLaws
pub mod SpanLaws
pub mod ReportLaws
pub mod PointLaws
pub mod EntryLaws
pub mod FitLaws
pub mod JudgeLaws
pub mod PutLaws
pub mod RoundTrip
pub mod FormedFits
pub mod Unique
