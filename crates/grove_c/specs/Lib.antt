pub mod Tellings
pub mod Endings
pub mod Handles
pub mod Openings
pub mod Numbers
