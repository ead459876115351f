pub mod Worked
pub mod Broken
pub mod Kept
