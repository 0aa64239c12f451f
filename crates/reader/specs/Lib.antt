-- What a reader gives, one event at a time (Reader).
pub mod Reader
