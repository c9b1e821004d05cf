pub mod Columns
pub mod Places
