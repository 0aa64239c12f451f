-- Made: what the program makes of its files, whatever they hold.
pub mod Made
