pub mod Numbers  -- the numbers, by the first no; what is answered and left then
