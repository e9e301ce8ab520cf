pub mod Lists
pub mod Counting
