-- What the calls above cite: the bytes of a message as the leaves write them, and the steps of an add.
pub mod Placed
pub mod Steps
