-- The store layer: where a packet's bytes lie (Slots), what a site holds (Site), what the two store calls do (Calls), what each public call promises (Promised), the calls on one
-- scheduler and one store and what each does (StoreCalls), and what the code's calls do (Runs).
pub mod Slots
pub mod Site
pub mod Calls
pub mod Promised
pub mod StoreCalls
pub mod Runs
