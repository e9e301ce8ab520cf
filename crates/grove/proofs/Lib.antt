pub mod Printing
pub mod Refusing
pub mod Saying
pub mod Sharing
pub mod Texts
pub mod TextLevels
