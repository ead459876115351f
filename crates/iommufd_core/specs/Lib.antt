pub mod AnswerInPlace
pub mod Asked
pub mod History
pub mod Kept
pub mod Moved
pub mod Refused
pub mod Server
pub mod TurnCounts
