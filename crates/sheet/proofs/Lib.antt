-- Tables and places; that a cycle is found; what each ground says, and what a sheet without one is.
pub mod IndexLaws
pub mod Pigeon
pub mod PathLaws
pub mod GroundLaws
pub mod FineLaws
pub mod CycleLaws
-- What the proofs of the functions share, from the table of arrows to what the others of a site read.
pub mod Arrows
pub mod Faults
pub mod Maps
pub mod Marks
pub mod Made
pub mod Rows
pub mod Readers
-- What is written is read back, and what is read is written again.
pub mod Pieces
pub mod WriteLaws
pub mod Elements
pub mod PartsLaws
pub mod ReadBack
pub mod RoundTrips
