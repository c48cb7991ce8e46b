-- There is one report for one input.
pub mod ReportLaws
-- What the proofs of the functions share: pieces put one after another, that they fit, and the whole.
pub mod Putting
pub mod Bounds
pub mod Telling
