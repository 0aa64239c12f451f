-- The lines of a replay as they are written: the bytes of a text (Text), and which line stands at a place (Written, `LineIs`). How one is read: a number
-- (Number), the three line forms and the event that a line is (Line, `line_at`). The theorems `line_is` and `no_other_line` hold reading to writing.
pub mod Text
pub mod Written
pub mod Number
pub mod Line
