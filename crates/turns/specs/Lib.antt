-- What a departure may count on and gives, on the parts of a state. Nothing of this is believed by a reader of promises.
pub mod Visits
