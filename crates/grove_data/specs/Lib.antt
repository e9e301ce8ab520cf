pub mod Numbers
pub mod Files
pub mod Refusals
pub mod Keeping
pub mod Copies
pub mod Parts
