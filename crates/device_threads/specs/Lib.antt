pub mod Jobs
pub mod Pairs
pub mod Stretches
pub mod Workers
