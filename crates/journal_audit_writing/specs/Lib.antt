pub mod Failing
pub mod Texts
pub mod Writing
