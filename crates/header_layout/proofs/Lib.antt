-- Laws of an image's shape, for the crates above.
pub mod Shaped
