pub mod Verdicts
pub mod Walked
