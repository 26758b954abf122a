-- The definitions that the contracts of `resend` cite. Assumes nothing.
pub mod Resends
pub mod Promise
pub mod Examples
