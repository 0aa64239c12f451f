-- Theorems: the three demands, of both layers, and what belongs to one of them. Argument: why, once for both.
pub mod Argument
pub mod Faces
pub mod Theorems
