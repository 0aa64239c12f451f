-- What is proved of the model. A reader of promises looks at Demand2 (what departs, nothing lost), Unchanged (what refusals and idle leave), Bursting
-- (what is seen of a burst), Slots (the slots that packets take), Standing (nobody stands twice), Told (what replies tell is in range), Waiting (how many
-- packets wait, and the most departures that a burst makes) and Bench (the bench sheet's rows). Following: a run of code goes as the chain of the same
-- calls, if each call does; of any kind of calls.
--
-- They rest on Keeps (every call keeps the rules, by Counts, Line and Flows), Departing (what a departure does to its flow and to the others), Queues
-- (what waits, call by call) and Chains (lists of calls). Choosing, Parts, Rounding and Refusals are small laws of the definitions.
pub mod Rows
pub mod Bench
pub mod Choosing
pub mod Parts
pub mod Counts
pub mod Rounding
pub mod Line
pub mod Flows
pub mod Refusals
pub mod Keeps
pub mod Standing
pub mod Departing
pub mod Queues
pub mod Waiting
pub mod Told
pub mod Chains
pub mod Demand2
pub mod Slots
pub mod Following
pub mod Unchanged
pub mod Bursting
