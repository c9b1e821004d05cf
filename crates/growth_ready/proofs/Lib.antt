-- Laws of the writes of an accepted call on a pair.
pub mod Acting  -- the named move, the call on the new image, and the moves behind it
