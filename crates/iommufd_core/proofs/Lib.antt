pub mod Answering
pub mod Applied
pub mod Counted
pub mod FewRanges
pub mod Histories
pub mod MayAsk
pub mod Opened
pub mod Roomless
