-- What replace and append cite: the text that an offset shows, as a part of the image.
pub mod Shown
