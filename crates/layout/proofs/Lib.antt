-- The laws that the calls in place apply: what is read where flows and line were laid, and that a store there lays the changed flow (Laws). Below them:
-- numbers as bytes (Bytes), and parts of one width that lie one behind the other (Runs).
pub mod Bytes
pub mod Runs
pub mod Laws
