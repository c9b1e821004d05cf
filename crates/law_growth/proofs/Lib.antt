-- During growth two images and the book agree, call by call. To begin with: Joins (two books that are together one),
-- Moving (the relation of two images and the book, and that a move keeps it); then each call.
pub mod Joins  -- the old image's book and the new one's are together the list's
pub mod Versions  -- two images of one kind
pub mod Moving  -- the relation, and moves
pub mod Looking  -- lookup and count
pub mod Edits  -- the same add on the list's book and on the new image's
pub mod Sums  -- the space of the old image's active messages is that of its book's texts
pub mod Own  -- the call's own number, with both C and U
pub mod Changing  -- add and delete
pub mod Choosing  -- reading, and the choice by epoch
pub mod Listed  -- which slots the list of a choice by ranges has
pub mod Starting  -- the start, and the end
