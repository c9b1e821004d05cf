pub mod Front
pub mod Moving
