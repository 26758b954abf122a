-- The laws of the shared definitions, for the proofs of every crate. Assumes nothing.
pub mod BoolLaws
pub mod BitLaws
pub mod SumLaws
pub mod HowManyLaws
pub mod JoinLaws
pub mod LargestLaws
pub mod CheckLaws
pub mod ByteLaws
pub mod PartLaws
pub mod Unique
pub mod RefusalLaws
