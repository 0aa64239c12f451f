-- The laws that function files apply: TurnLaws (steps 3 to 6) and BeginLaws (step 2).
pub mod TurnLaws
pub mod BeginLaws
