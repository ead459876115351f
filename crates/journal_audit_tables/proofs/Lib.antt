pub mod Adding
pub mod Free
pub mod Leaving
pub mod MissingLeft
pub mod Moving
pub mod Named
pub mod NeededTables
