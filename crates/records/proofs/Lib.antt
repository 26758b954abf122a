-- The laws of records, and the theorems on reading and writing. Assumes nothing.
pub mod ReadLaws
pub mod WriteLaws
pub mod BackLaws
pub mod RoundTrip
pub mod Unique
