pub mod Allocated
pub mod AreRising
pub mod LeavingOut
pub mod RangesAllowed
pub mod RangesSorted
pub mod UnusableAmong
