-- Records and their columns.
pub mod CasesColumns  -- cases, by computation
