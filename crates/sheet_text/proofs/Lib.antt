-- Laws of the sheet's text. Theorems has what request 2026-01 asks of it, Lengths how long the sums and a remark can be, and Names that no name makes a
-- remark more than one line; SheetLaws serves programs that make a sheet site by site, SumLaws and RemarkLaws this crate's functions.
mod SumLaws
mod RemarkLaws
pub mod Lengths
pub mod Names
pub mod SheetLaws
pub mod Theorems
