pub mod Numbers
pub mod Hints
