-- The definitions that the contracts of `window` cite. Assumes nothing.
pub mod Formed
pub mod Opening
pub mod Sending
pub mod Reporting
pub mod Answers
pub mod Season
pub mod Examples
