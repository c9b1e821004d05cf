-- Cases of storing and reading records by column, and what their contracts say.
pub mod CasesRecords  -- cases, by computation
pub mod Statements  -- what contracts cite, field by field
