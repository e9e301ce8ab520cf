pub mod Books
pub mod FinishedRuns
pub mod Runs
