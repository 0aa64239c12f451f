-- The image of a state as firmware keeps it (Image), and what C reads as a reply (Replies).
pub mod Image
pub mod Replies
