-- What is proved of the calls for firmware. The laws that function files apply: SizesLaws and SiteLaws (from what the layers' calls give to what a call
-- for firmware promises), ResetLaws. AsLayers: runs of these calls are runs of the layers' calls. Settled: no second outcome.
pub mod ResetLaws
pub mod SizesLaws
pub mod SiteLaws
pub mod AsLayers
pub mod Settled
