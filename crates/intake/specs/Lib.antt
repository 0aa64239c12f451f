-- Intake: what was read lies within the buffer.
pub mod Intake
