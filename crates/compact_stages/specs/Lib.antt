-- What compaction's steps ask of an image, and what each leaves.
pub mod Stages
pub mod Charts
