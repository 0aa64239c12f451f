-- PageLaws has the laws of `put` for other crates to cite, PutsLaws those of what calls put, and Settled that no second outcome meets a contract; PutLaws
-- serves this crate's functions.
pub mod PageLaws
pub mod PutsLaws
mod PutLaws
pub mod Settled
