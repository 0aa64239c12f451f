-- What the replay prints. Script (the events of an input), Story (what happens at each, and what is reported of it), Transcript (the printed text) and
-- Log (the departures, and how the replay ended) are what a reader believes; Course serves the contracts.
pub mod Script
pub mod Story
pub mod Transcript
pub mod Log
pub mod Course
