-- The definitions that the contracts of `lines` cite. Assumes nothing.
pub mod Words
pub mod Text
pub mod Lines
