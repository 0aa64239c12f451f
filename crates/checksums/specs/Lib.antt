-- Checksum: what a checksum takes in.
pub mod Checksum
