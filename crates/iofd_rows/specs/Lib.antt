pub mod AccessPins
pub mod Debts
pub mod Ids
pub mod Pinned
pub mod Reached
