pub mod Fronts
pub mod Changes
pub mod Once
pub mod Putting
pub mod Leading
pub mod Reading
