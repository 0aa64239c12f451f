-- Laws of shares, of their sums (Totals: the flows' shares add up to the total), and of the reading of a log.
pub mod ShareLaws
pub mod Totals
mod ReadLaws
pub mod Settled
