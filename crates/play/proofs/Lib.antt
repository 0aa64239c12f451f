-- Laws that belong to no one function. Theorems has what the replay writes, Example document 01's example (Worked), Lengths how long a transcript
-- and a log can be, Ranges what a log can hold, ScriptLaws that on the bound of `script_from`, and Settled that no second outcome meets a contract.
mod ReportLaws
pub mod ScriptLaws
mod StoryLaws
pub mod LogLaws
mod CourseLaws
mod PlayLaws
pub mod Lengths
pub mod Ranges
pub mod Worked
pub mod Example
pub mod Settled
pub mod Theorems
