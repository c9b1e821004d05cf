-- One image and the book: each step keeps their relation, with equal answers. To begin with: File (the invariant, and a
-- change to one point), Reflect (the relation of file and book), Forms (every step). Between them stands, for each
-- effect, that it is such a change, and for each call, that it keeps the relation with an equal answer. Two images are
-- in crates/law_growth; lists of calls, demand 3 and what a user is promised in crates/law_lists.

-- ---- the invariant and the relation
pub mod File  -- the invariant of a file, and how a change to one point keeps it
pub mod Entries  -- the book's entries by name
pub mod Reflect  -- the relation of file and book
-- ---- each effect is a change to one point
pub mod Data  -- steps in the data area
pub mod Retire  -- a message made inactive
pub mod Space  -- new space at X
pub mod Overwrite  -- a message written in place
pub mod Slots  -- a slot written, or entered
pub mod Remove  -- a point gone
pub mod Noted  -- the version written beside an empty message
-- ---- each call keeps the relation
pub mod Simple  -- count, lookup and delete
pub mod Dating  -- the entry of a prism at an epoch
pub mod Place  -- a message placed in new space
pub mod Present  -- add of a point that is present
pub mod Absent  -- add of a point that is absent
pub mod Add  -- add
pub mod Recorded  -- records stored and read by column
pub mod Fresh  -- create
-- ---- compaction, the converter, and each step
pub mod Checked  -- the check of a file with the invariant
pub mod Compact  -- a compacted file
pub mod Reopened  -- the book read off a file
pub mod Trimmed  -- the book's entries after a compaction
pub mod Compacting  -- compaction keeps the relation
pub mod Spaces  -- the space that the book's entries take
pub mod Named  -- a file's slots and its book, by name
pub mod Carrying  -- messages carried into the converter's target, one by one
pub mod Bare  -- the target before the first message is carried
pub mod Converting  -- the converter keeps the relation
pub mod Forms  -- each step, in its form, keeps the relation
pub mod Found  -- file and book find the same points
pub mod Steps  -- what a call does to the book
pub mod Numbers  -- which numbers a step of the book may answer
pub mod Area  -- the bytes below X that a call leaves as they were, of any image
pub mod Shown  -- what lookup shows after an add in mode 2, of any image
pub mod Records  -- reading after storing records, of any image
