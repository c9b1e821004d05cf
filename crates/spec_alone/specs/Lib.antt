-- Lists of calls on one image: what a list holds and what each step does; what the book does with it; where a list starts;
-- demand 3.
pub mod Steps
pub mod Told
pub mod Reopened
pub mod Demand
