-- Site (whether an output follows from its events), Week (the sums over sites) and Runs (which weeks the calls give) are what a reader
-- believes; Reading serves the contracts.
pub mod Site
pub mod Week
pub mod Reading
pub mod Runs
