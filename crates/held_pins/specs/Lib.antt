pub mod Counts
pub mod Held
pub mod HeldPins
pub mod PageOrder
pub mod Words
