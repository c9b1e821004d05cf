-- What add's two halves cite.
pub mod Rooms
