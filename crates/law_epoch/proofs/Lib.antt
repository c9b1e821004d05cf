-- Laws of epochs: the choice, the call's answer, and what 02 says of both.
pub mod Choice  -- which slot is chosen, and one slot looked at
pub mod Answers  -- the call's number, case by case, and the text that it shows
pub mod Shown  -- document 02's sentence
