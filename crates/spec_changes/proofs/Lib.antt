-- Laws of the list of changes and of journals. Assumes nothing.
pub mod Changes  -- the list of changes: what it covers, and that copying it suffices
pub mod Copied  -- an image with stretches of another copied into it
pub mod Journal  -- what stands in a journal is read back
pub mod Recovery  -- a cut, and recovery
pub mod Enough  -- how long a list and a journal always suffice
pub mod CasesChanges  -- the list of changes, the journal, recovery
pub mod Statements  -- what the records of promises and contracts say
