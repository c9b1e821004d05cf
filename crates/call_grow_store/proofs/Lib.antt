-- Laws of storing during growth, for its code.
pub mod Growing  -- an accepted call, step by step
