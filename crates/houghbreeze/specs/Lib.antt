-- The calls for firmware: what each call promises (Promised), and what runs of these calls do (Runs).
pub mod Promised
pub mod Runs
