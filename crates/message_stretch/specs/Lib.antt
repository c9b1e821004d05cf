-- What the code asks of an image; stretches and windows.
pub mod Checked
pub mod Stretches
pub mod Windows
