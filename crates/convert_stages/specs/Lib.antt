-- A target in the middle of a conversion.
pub mod Stages
