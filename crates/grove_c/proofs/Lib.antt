pub mod Tellings
pub mod LooseValues
pub mod HandleValues
pub mod Opened
pub mod Replied
