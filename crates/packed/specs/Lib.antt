-- Sites and runs as bytes.
pub mod Bytes
