pub mod Accounts
pub mod Within
