pub mod Texts  -- the add that a move is, by whether the point's message is active
pub mod Asking  -- what a move asks, by its cases
