pub mod Layout
pub mod Lends
pub mod Rows
pub mod Table
