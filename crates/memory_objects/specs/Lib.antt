pub mod Backed
pub mod Invariant
pub mod Objects
pub mod Runs
