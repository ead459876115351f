pub mod Applied
pub mod Caches
pub mod Entries
pub mod Guarded
pub mod OfPort
pub mod Opening
pub mod Passes
pub mod Told
