pub mod CasesDisk  -- cuts, each flush that is needed, and the model itself, by computation
pub mod Statements  -- what the promises say, and what may happen
