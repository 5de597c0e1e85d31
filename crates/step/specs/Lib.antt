pub mod Tasks
pub mod CoreLaws
pub mod StepLaws
pub mod TaskLaws
pub mod FetchLaws
pub mod RequestLaws
pub mod RunLaws
