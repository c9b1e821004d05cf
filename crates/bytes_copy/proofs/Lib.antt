-- Laws of bytes copied, one by one and in blocks.
pub mod Copied
pub mod Blocks
pub mod Moved
