pub mod Frames
pub mod Readings
pub mod Files
pub mod Devices
pub mod Logs
pub mod PastBytes
pub mod MemoryFiles
