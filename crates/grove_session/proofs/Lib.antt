pub mod Written
pub mod Lines
pub mod Answering
pub mod Going
pub mod Sending
pub mod Reading
pub mod LineCuts
