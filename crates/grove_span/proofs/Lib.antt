pub mod LowestCommon
pub mod Ascending
pub mod ForcedWays
pub mod FirstAndLast
pub mod ForcedRows
pub mod VisitSlots
