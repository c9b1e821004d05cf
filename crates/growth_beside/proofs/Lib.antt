-- Laws of the call's own questions with both images' numbers, for its code.
pub mod Places  -- 12 and 13 by where a length stands
pub mod Asked  -- the call's own questions, as the code comes to them
