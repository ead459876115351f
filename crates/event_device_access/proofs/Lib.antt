pub mod ByWalk
pub mod DeviceReads
pub mod DeviceWrites
pub mod FirstMarks
pub mod Translated
pub mod Walked
