-- Laws of sites and weeks. Theorems has what request 2026-01 asks of them, Example a week worked out, and Settled that no second outcome meets
-- a contract.
pub mod CompareLaws
pub mod SiteLaws
pub mod WeekLaws
pub mod Theorems
pub mod Example
pub mod Settled
