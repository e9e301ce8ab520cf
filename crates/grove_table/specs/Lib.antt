pub mod Tables
pub mod Texts
pub mod Refusals
pub mod PathScans
pub mod Rows
pub mod Plantings
pub mod Confirming
