pub mod Modulo
pub mod Numbers
