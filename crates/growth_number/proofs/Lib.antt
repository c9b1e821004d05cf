-- Laws of the numbers of the calls on a pair, for their code.
pub mod Turns  -- the questions in their order
