-- The laws of the exported calls. Assumes nothing.
pub mod NumberLaws
pub mod OpenLaws
pub mod RecordLaws
pub mod WindowLaws
pub mod Stored
pub mod Unique
