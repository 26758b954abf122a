-- The definitions that the contracts of `verdicts` cite. Assumes nothing.
pub mod Written
