pub mod Headers
pub mod Heads
pub mod Turns
pub mod Taken
