-- The laws of resend pairs, and demand 3. Assumes nothing.
pub mod ResendLaws
pub mod Demand3
pub mod Unique
