-- The refusals. Assumes nothing.
pub mod Refusals
