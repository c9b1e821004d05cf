pub mod Numbers  -- delete's number, as its code comes to it
