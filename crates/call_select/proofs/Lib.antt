pub mod Filling
pub mod Selecting
