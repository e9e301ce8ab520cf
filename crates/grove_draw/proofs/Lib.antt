pub mod WrittenRows
pub mod LockedNodes
pub mod BarsBelow
