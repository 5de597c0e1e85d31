pub mod Invariants
pub mod Secrecy
