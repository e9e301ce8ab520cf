pub mod Stepping
pub mod Staying
pub mod Places
