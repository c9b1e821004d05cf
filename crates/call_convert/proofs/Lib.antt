-- The converter's number, by the check's verdict.
pub mod Told
