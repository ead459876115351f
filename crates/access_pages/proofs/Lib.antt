pub mod Firsts
pub mod Places
pub mod PinSteps
pub mod Room
pub mod Through
pub mod Undone
pub mod UnpinSteps
