-- Laws for the journal's functions. Assumes nothing.
pub mod Reading  -- a journal's numbers as the code reads them
pub mod Settling  -- the writes that a marked journal asks for
pub mod Going  -- those writes one by one
pub mod Recovering  -- recovery, case by case
