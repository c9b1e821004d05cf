-- Ranges of key bytes; their laws are in crates/law_range.
pub mod CasesRanges  -- cases, by computation
pub mod Statements  -- what the promises say
