pub mod Items
pub mod Documents
pub mod Each
pub mod Turns
pub mod Columns
pub mod Shorts
pub mod Written
pub mod Floatless
pub mod Weights
pub mod Fitting
pub mod Requests
pub mod SameNames
pub mod Slashes
pub mod Stored
pub mod DocumentTexts
pub mod LeastFits
pub mod Feedless
pub mod Tokens
pub mod Levels
mod RoundTexts
mod PlannedTexts
pub mod FlatValues
