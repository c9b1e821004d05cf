-- In the order of reading: what a window shows of stretches, what the code reads of them, and a sweep over the windows.
pub mod First
pub mod Pieces
pub mod Reading
pub mod Sweeps
