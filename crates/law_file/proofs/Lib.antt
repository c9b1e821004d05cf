-- Laws of the definitions in crates/spec_file, of any image bytes. The code's crates rest on them, and the theorem over
-- lists. In this order each module rests on those above it. To begin with: the heads of Bytes, Slots and Table, then
-- Probe; for the calls Opened, Kept and Outcomes.

-- ---- bytes and numbers
pub mod Tests  -- tests on Bools and numbers, as facts and case splits
pub mod Bytes  -- parts, stores, numbers of any width
pub mod Byte  -- one byte, of a part and after a store
pub mod Stores  -- stores in turn as one, and a part that was lent
pub mod Slots  -- fields and slots after a write
pub mod Total  -- sums over slots
pub mod Cyclic  -- the cyclic order of slots
-- ---- the header
pub mod Opened  -- questions 1, 5 and 6 as facts; the first no
pub mod Accepted  -- create's questions 1 to 4 as facts
pub mod Fresh  -- how long the pieces of create's image are
pub mod Kept  -- the bytes that no call changes
-- ---- the table
pub mod Table  -- taken slots, tables in which searches find what stands, a name's slot
pub mod Probe  -- what a search says
pub mod SlotsRead  -- how many slots a search reads
pub mod Spread  -- how far entries stand from their homes
pub mod Insert  -- a slot written where a search ended
pub mod Closing  -- delete's walk: its turns, and that it ends
pub mod Frames  -- what the walk leaves as it was
pub mod Delete  -- the walk keeps what searches go by, and takes one key out
pub mod Verdict  -- what a check that says sound has seen
-- ---- messages and calls
pub mod Stretch  -- a message as a stretch of bytes
pub mod Meeting  -- stretches of slots, and whether they meet
pub mod Texts  -- the text that each mode of add places
pub mod Effects  -- the effects of a call, one by one
pub mod Sought  -- the questions that every call on a name puts first
pub mod CallsRead  -- how many slots a call's search read
pub mod Outcomes  -- each call's number, case by case, and the image that it leaves
