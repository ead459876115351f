pub mod Bits
pub mod Members
pub mod Numbered
pub mod OutsideRows
pub mod Padding
pub mod SameSettings
pub mod Unsaid
