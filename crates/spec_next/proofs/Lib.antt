pub mod Next
pub mod CasesNext
