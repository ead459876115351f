pub mod Digits
pub mod Fields
pub mod Grammar
pub mod Lines
pub mod Script
pub mod Opening
pub mod Shape
