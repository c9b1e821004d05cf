-- Laws of compaction's stages, for the proofs of its steps.
pub mod Entries
pub mod Stages
pub mod Steps
pub mod Forgetting
pub mod Fills
pub mod Passing
pub mod Cells
pub mod Listings
pub mod Ends
pub mod Tight
