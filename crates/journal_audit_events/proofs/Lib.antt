pub mod Going
pub mod TablesGone
pub mod Unchanged
pub mod Unpinned
pub mod Writes
