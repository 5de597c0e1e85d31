pub mod Coding
pub mod Within
pub mod Arms
pub mod FieldLaws
pub mod SpellingLaws
pub mod DecodingLaws
pub mod RoundTrip
pub mod Numbers
