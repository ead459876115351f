pub mod Appended
pub mod Journals
pub mod Limited
pub mod Lists
pub mod Written
