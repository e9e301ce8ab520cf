pub mod Lowering
pub mod Starting
pub mod Closed
pub mod Reaching
pub mod Growing
pub mod Offering
pub mod Sending
