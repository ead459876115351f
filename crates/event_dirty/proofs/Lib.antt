pub mod Kept
pub mod Reported
