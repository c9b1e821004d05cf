-- Laws of bytes compared, one by one and in blocks.
pub mod Little
pub mod Compare
