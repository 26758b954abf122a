-- The definitions that the contracts of `judging` cite. Assumes nothing.
pub mod Reports
pub mod Complaints
pub mod Verdicts
