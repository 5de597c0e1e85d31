pub mod Readings
pub mod Exact
pub mod Bits
pub mod Settings
pub mod Overflow
pub mod Fields
