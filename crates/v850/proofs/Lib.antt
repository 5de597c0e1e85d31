pub mod Fill
pub mod CallLaws
pub mod Answers
