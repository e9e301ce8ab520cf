pub mod Plans
pub mod Slots
pub mod Faults
pub mod Tallies
pub mod Laws
