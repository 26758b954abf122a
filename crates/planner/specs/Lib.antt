-- The definitions that the contracts of `planner` cite. Assumes nothing.
pub mod Asked
pub mod Plan
pub mod Examples
