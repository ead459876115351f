pub mod Next
pub mod Own
pub mod Rows
pub mod Starts
pub mod Verdict
