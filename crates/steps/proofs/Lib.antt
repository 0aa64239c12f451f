-- The laws that function files apply: FlowLaws, RoundLaws (from what a function stores to what the model's step says) and AskLaws (open and offer).
-- Below them: Packed (sizes as the digits of one number) and Encoded (lists in cells, flows and rounds, and back).
pub mod Packed
pub mod Encoded
pub mod FlowLaws
pub mod RoundLaws
pub mod AskLaws
