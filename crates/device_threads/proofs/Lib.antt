pub mod Done
pub mod Pairs
pub mod Stretches
