pub mod Moving  -- what a move asks of its caller, and what it leaves
