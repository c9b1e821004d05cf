-- Cases of compaction, by computation; its laws are in crates/law_compaction.
pub mod CasesCompact
