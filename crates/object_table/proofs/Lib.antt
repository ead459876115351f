pub mod EntryRows
pub mod FileRows
pub mod Lookup
pub mod Fresh
pub mod Keys
pub mod Lists
pub mod Rows
pub mod Tables
