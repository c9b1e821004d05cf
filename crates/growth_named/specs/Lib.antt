pub mod Names  -- what a name in the old image asks, and what its numbers answer
