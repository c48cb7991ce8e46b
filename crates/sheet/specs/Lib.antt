-- A sheet's record, what a cycle is, and the grounds in 01's order; what is accepted, the writer, and the parts as bytes; last, what the code computes.
pub mod Index
pub mod Record
pub mod Paths
pub mod Grounds
pub mod Fine
pub mod Write
pub mod RoundTrip
pub mod Parts
pub mod Faults
