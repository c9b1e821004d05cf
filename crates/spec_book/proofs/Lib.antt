-- Cases of the book, by computation.
pub mod CasesBook  -- the book, what file and book find, and what `Agreement` says
pub mod CasesNoted  -- empty notes
pub mod CasesReopened  -- books read off images that no call of ours made
pub mod CasesTrimmed  -- compaction
pub mod CasesConverted  -- the converter
pub mod CasesGrown  -- the start of growth
pub mod CasesForms  -- the forms with a working slice
pub mod CasesRecorded  -- records by column
pub mod CasesDated  -- the choice by epoch
pub mod Statements  -- what demand 3 and its cases say
