pub mod Effects
pub mod Snapshots
