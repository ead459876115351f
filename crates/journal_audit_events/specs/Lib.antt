pub mod Asked
pub mod Gone
pub mod Outcomes
pub mod Served
