-- Cases of growth, by computation; its laws are in crates/law_growth.
pub mod CasesGrowth
