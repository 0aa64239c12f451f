-- What is proved of images: the image of a state and back from it (ImageLaws), and below it the round's numbers as bytes (RoundBytes).
pub mod RoundBytes
pub mod ImageLaws
