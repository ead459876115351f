mod Given
mod Handled
mod InLimits
mod Loosened
mod Rows
mod Words
