-- The plain control book, and demand 3: file and book agree on every list of steps.
pub mod Steps
pub mod Book
pub mod Told
pub mod Reopened
pub mod Demand
