pub mod Begun
pub mod Unsound
