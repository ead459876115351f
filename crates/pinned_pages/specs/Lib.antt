pub mod Access
pub mod Accesses
pub mod Holds
pub mod Kept
pub mod Pages
