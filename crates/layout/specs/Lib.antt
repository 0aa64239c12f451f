-- Numbers as bytes (Bytes), and where the flows and the line of a state lie in one run of bytes (Layout). Nothing of this is believed by a reader of
-- promises: it serves the calls that work in place.
pub mod Bytes
pub mod Layout
