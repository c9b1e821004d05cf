-- Laws of a target in the middle of a conversion.
pub mod Below  -- the messages that begin below a place
pub mod Visits  -- numbers that name the slots of a window, by a list or by a chart
pub mod Steps  -- a slot's message carried, and the target then
