pub mod Contained
pub mod Never
pub mod UsableSpans
