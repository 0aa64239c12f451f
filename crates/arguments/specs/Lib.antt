-- Argument: what a number among the arguments is.
pub mod Argument
