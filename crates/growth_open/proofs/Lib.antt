-- What every call on a pair cites.
pub mod Pairs
