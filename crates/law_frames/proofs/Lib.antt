pub mod Added
pub mod Deleted
