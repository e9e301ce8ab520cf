pub mod Lines
pub mod LookedAt
pub mod PathNames
pub mod RowRules
pub mod TextRefusals
pub mod SpareLines
