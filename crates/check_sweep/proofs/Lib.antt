pub mod Passes  -- a pass over the slots in one window
