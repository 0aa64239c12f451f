-- How the cells of a state stand for the model's flows and its round (Cells), where packets lie (Places), and what the steps may count on and give
-- (Premises). Nothing of this is believed by a reader of promises: it serves the functions of this crate and the state's calls above.
pub mod Cells
pub mod Places
pub mod Premises
