-- The laws of reports, complaints and verdicts that are due, for this crate's proofs and those above it. Assumes nothing.
pub mod ReportLaws
pub mod PlaceLaws
pub mod ComplaintLaws
pub mod AgainstLaws
pub mod LostLaws
pub mod DueLaws
pub mod JudgeLaws
pub mod StepLaws
pub mod Accepted
pub mod HeardLaws
pub mod Kept
pub mod Later
pub mod Meaning
pub mod Unique
