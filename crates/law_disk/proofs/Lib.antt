-- Laws of a disk that loses what was not flushed. Assumes nothing.
pub mod Left  -- what a cut may leave, in two forms
pub mod States  -- what image and journal go through
pub mod Actions  -- the lists of actions lead from state to state
pub mod Life  -- the promises
pub mod Merged  -- runs that lie close together, as one stretch
