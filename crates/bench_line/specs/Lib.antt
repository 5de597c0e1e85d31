pub mod Text
pub mod TextLaws
pub mod Digits
pub mod Line
pub mod LineLaws
pub mod Samples
