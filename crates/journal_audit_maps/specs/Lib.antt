pub mod Gaps
pub mod Held
pub mod Leaving
pub mod Newly
pub mod Waiting
