pub mod Marks
pub mod Tracking
