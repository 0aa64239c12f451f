-- The model of Elastic Round Robin, in document 01's words and order.
-- A reader believes these files: Limits (the table of numbers), Model (the state), Steps (steps 1 to 6), Calls (calls and refusals), Replies
-- (document 01's number and values of each answer), Chain (chains of calls of any kind), OrderCalls (the calls on sizes, and what each does), Runs (runs
-- of code), Rules (what holds of every state). Choose has the two choices that the definitions make.
pub mod Limits
pub mod Choose
pub mod Model
pub mod Steps
pub mod Calls
pub mod Replies
pub mod Chain
pub mod OrderCalls
pub mod Runs
pub mod Rules
