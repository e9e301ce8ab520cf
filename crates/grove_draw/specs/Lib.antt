pub mod Pictures
pub mod Bars
pub mod Writings
pub mod Scales
