pub mod FreeMap
pub mod Kept
pub mod PageFrames
pub mod Pool
pub mod UserPages
