-- What the calls above cite.
pub mod Reaching
