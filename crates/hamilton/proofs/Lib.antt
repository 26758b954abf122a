-- The laws of Hamilton's counts, for this crate's proofs and those above it. Assumes nothing.
pub mod RankLaws
pub mod QuotaLaws
pub mod CountLaws
pub mod JudgeLaws
pub mod CountsAddUp
pub mod Unique
