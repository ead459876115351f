pub mod Listed
pub mod PageSets
pub mod Pinning
pub mod Unusable
pub mod Widths
