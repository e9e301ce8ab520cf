pub mod Outcomes
pub mod Faults
pub mod Says
pub mod PlannedDocuments
