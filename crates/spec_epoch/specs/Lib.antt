pub mod Epochs
