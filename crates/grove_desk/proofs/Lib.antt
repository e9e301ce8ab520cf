pub mod Moving
pub mod Noting
pub mod Keeping
pub mod Turns
pub mod Places
pub mod Sharing
pub mod Unhinted
