-- `Lines` has the theorems for other crates to cite, over the laws of `Span` and `Decimal`, and `Settled` that no second outcome meets a contract. The
-- other files serve this crate's proofs.
mod Steps
pub mod Span
pub mod Decimal
mod Numbers
mod Fields
pub mod Lines
pub mod Settled
