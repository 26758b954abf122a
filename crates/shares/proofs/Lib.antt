-- The laws of shares, for this crate's proofs and those above it. Assumes nothing.
pub mod ShareLaws
pub mod WeighLaws
pub mod BehindLaws
pub mod ClusterLaws
pub mod PointLaws
pub mod Unique
