-- Demand 3: file and book agree on every list of calls. The statement is `Demand3` of
-- crates/spec_book/specs/Demand.antt. That each step keeps the relation of file and book is in crates/law_agreement, of
-- one image, and in crates/law_growth, of two.
pub mod Theorem  -- the theorem
pub mod Reached  -- files that calls have reached
pub mod Selecting  -- names in ranges, beside the book's
pub mod PairSelecting  -- names in ranges during growth
pub mod Growing  -- growth in the words of a user
pub mod Users  -- corollaries in the words of a user
pub mod Epochs  -- the entry of a prism at an epoch, of files that calls have reached
