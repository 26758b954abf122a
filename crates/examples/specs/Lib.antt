-- Worked examples, proved of the definitions that the contracts cite. Assumes nothing.
pub mod Starred
pub mod Worked
