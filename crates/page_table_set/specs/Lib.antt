pub mod Idle
pub mod Kept
pub mod OverSpans
pub mod PageTables
pub mod Removed
pub mod SameFrames
