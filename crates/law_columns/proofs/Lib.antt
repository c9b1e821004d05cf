-- Laws of records and columns, with the width as a parameter.
pub mod Grid  -- lists by row and place in it
pub mod Turned  -- columns and records byte by byte, and each after the other
pub mod Steps  -- one byte more at its place
