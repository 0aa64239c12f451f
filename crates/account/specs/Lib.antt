-- What the statements of demand 3 speak of: stretches of calls, who waits, what is sent, which turns are completed.
pub mod Stretch
