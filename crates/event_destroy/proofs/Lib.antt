pub mod CountsClosed
pub mod Destroyed
pub mod FileGone
pub mod FramesCounted
pub mod GivesBackMoves
pub mod RowsCounted
pub mod TablesGone
pub mod TablesLeft
