-- Share: what departures amount to, which a reader believes. Reading serves the contract that reads a log.
pub mod Share
pub mod Reading
