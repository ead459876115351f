pub mod Moves
pub mod Shown
