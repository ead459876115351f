pub mod Format
pub mod Head
pub mod HeadReading
pub mod Journal
pub mod Reading
pub mod Replies
pub mod Version
