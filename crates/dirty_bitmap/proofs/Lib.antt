pub mod Kept
pub mod Reports
pub mod Tracked
pub mod WordBits
