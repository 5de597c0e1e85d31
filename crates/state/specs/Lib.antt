pub mod Windows
pub mod WindowLaws
