pub mod Carried  -- the writes of an update
pub mod Carrying  -- those writes one by one
