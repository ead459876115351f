pub mod Idle
pub mod Levels
pub mod Spans
