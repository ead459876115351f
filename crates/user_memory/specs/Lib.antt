pub mod Adding
pub mod Changes
pub mod Invariant
pub mod Memory
