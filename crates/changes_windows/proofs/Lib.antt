pub mod Scanning
pub mod Windowed
