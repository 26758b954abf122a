-- The laws of the plan, for the proofs of this crate and of the program. Assumes nothing.
pub mod AskedLaws
pub mod PlanLaws
pub mod Printed
pub mod Unique
