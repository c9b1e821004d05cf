-- Laws of a name that still stands in the old image, for its code.
pub mod Entries  -- the move's questions, by how the search in the new image ended
pub mod Naming  -- the call's own number after the move, and both in turn
