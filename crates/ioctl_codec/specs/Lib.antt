pub mod Events
pub mod Layout
pub mod Table
pub mod Entries
pub mod Structures
pub mod Spelling
pub mod Refusals
