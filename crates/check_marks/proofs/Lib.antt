-- Bits of words, and claims of the map.
pub mod Bits
pub mod Claims
