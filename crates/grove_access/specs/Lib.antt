pub mod Effects
pub mod Lists
pub mod Slots
pub mod Forced
pub mod Carries
pub mod KnownPlaces
pub mod ListFaults
