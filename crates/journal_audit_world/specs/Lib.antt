pub mod Decides
pub mod Kept
pub mod Keys
pub mod Over
pub mod Tracked
pub mod Unwritten
