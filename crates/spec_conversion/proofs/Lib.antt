-- Cases of the converter, by computation; its laws are in crates/law_conversion.
pub mod CasesConvert
