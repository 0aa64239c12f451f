-- The three demands, for any layer of the box (Demands), and its two layers (Layers).
pub mod Demands
pub mod Layers
