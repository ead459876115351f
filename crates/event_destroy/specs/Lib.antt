pub mod FileAreas
pub mod Held
