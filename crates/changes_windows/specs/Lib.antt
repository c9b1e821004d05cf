pub mod Scans
pub mod Windows
