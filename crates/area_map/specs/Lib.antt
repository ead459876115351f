pub mod AreaTable
pub mod Blocks
pub mod Insertion
pub mod Kept
