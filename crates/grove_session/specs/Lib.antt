pub mod Sessions
pub mod Intakes
pub mod Cuts
