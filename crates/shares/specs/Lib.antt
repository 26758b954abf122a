-- The definitions that the contracts of `shares` cite. Assumes nothing.
pub mod Shares
pub mod Cluster
pub mod Point
pub mod Examples
