-- The law of the loop that takes in bytes.
mod FoldLaws
