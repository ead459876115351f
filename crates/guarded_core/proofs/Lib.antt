pub mod Answered
pub mod ByFound
pub mod Entered
pub mod FewRecords
pub mod Guards
pub mod Kept
