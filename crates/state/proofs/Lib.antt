pub mod Flags
pub mod Bytes
pub mod Search
