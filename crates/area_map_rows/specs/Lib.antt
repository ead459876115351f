pub mod Areas
pub mod Rows
