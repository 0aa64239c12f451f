-- What a state holds (State), how it stands for the model's scheduler, with what is so of every state (Encoding), what each call promises (Promised), and runs of
-- the code (Runs).
pub mod State
pub mod Encoding
pub mod Promised
pub mod Runs
