pub mod Cleared
pub mod Idle
pub mod Lost
pub mod Waiting
