pub mod Answers
pub mod Keepers
pub mod Lines
pub mod Opening
pub mod Outcomes
pub mod Runs
