-- ReaderLaws: what a reader's `next` says of the line at its place. Settled: no second outcome meets a contract.
pub mod ReaderLaws
pub mod Settled
