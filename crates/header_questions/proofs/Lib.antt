pub mod Headers
pub mod Version
