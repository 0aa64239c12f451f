-- Laws of what the program makes. Theorems has what it writes.
mod MadeLaws
pub mod Theorems
