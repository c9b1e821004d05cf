-- More cases of file and book, and the old limits.
pub mod OldLimits
pub mod CasesTable
pub mod CasesHeaders
pub mod CasesImages
pub mod CasesInspected
pub mod CasesRead
pub mod CasesLists
pub mod CasesMore
pub mod CasesWider
pub mod CasesGrowing  -- lists with growth
pub mod CasesMoving  -- calls during growth
