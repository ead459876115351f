pub mod FirstMark
pub mod Outcomes
pub mod Tracked
