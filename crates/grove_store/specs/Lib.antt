pub mod StoreStates
pub mod Refusals
pub mod Alone
pub mod Rounds
pub mod Parts
pub mod Longest
pub mod Texts
pub mod KeptTexts
