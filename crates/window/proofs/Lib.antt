-- The laws of the window, for this crate's proofs and those above it. Assumes nothing.
pub mod FormedLaws
pub mod OpenLaws
pub mod OpenKept
pub mod SendLaws
pub mod SendKept
pub mod RefusalLaws
pub mod ReportLaws
pub mod Season
pub mod Unique
