-- Laws of growth, of any bytes of both images.
pub mod Beside  -- the call's own questions, with a number of points and a place
pub mod Again  -- after an accepted add or delete the image is opened again, with the layout that it had
pub mod Moved  -- a move's number, and what an accepted one leaves
pub mod Lowest  -- below the lowest taken slot a delete leaves no taken slot
pub mod Sum  -- the space of the active messages after a delete
pub mod Several  -- so many moves, one at a time
pub mod Foreseen  -- the call's own number after the named point's move, before a byte is written
pub mod Accepted  -- what a call in growth accepts, the plain call on the new image accepts
pub mod Named  -- the named point's move accepted: what follows, and the call's own number
