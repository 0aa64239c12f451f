-- What is proved of the order layer. A reader of promises looks at Settled (no second outcome meets a contract) and Follows (each call of the code does
-- what the model's call does, on the scheduler that its state stands for).
--
-- The laws that function files apply: LentLaws (the line is lent, and comes back). Below them: StateLaws (the whole state) and BurstLaws (burst's loop).
pub mod StateLaws
pub mod BurstLaws
pub mod LentLaws
pub mod Settled
pub mod Follows
