pub mod AccessRows
pub mod AccessRuns
pub mod Bools
pub mod FirstPin
pub mod HoldsMove
pub mod PinnedPage
pub mod Runs
pub mod UsersPages
