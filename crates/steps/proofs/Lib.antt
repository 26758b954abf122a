-- The laws of a report's steps, for this crate's proofs. Assumes nothing.
pub mod ColumnLaws
pub mod EntryLaws
pub mod ChangeLaws
pub mod HeardLaws
pub mod HearLaws
pub mod PointLaws
pub mod StoreLaws
pub mod RefusalLaws
pub mod VerdictLaws
pub mod ReadyLaws
pub mod StepLaws
pub mod QuietLaws
