pub mod Keys
pub mod Best
