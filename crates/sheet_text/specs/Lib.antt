-- Sheet: the text of a share sheet.
pub mod Sheet
