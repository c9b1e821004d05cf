-- Laws of ranges of key bytes.
pub mod Ranges  -- keys in ranges, and question 22
pub mod Chosen  -- the numbers for which a test holds, and their bytes
pub mod Number  -- the call's number, and what it leaves
pub mod Selected  -- the slots that are listed
pub mod Listed  -- exactly the wanted ones, each once, in rising order
pub mod Equal  -- equal bounds give what lookup finds
