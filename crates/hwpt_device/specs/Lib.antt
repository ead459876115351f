pub mod Attaching
pub mod Filling
pub mod Making
pub mod Narrow
pub mod Pinning
