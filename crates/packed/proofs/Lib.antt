-- Bytes and values belong together, and what the proofs of the readers and of the writers share.
pub mod BytesLaws
pub mod Reading
pub mod Arrays
pub mod Writing
