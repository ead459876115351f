pub mod LeftOut
pub mod RangeChecks
pub mod Rising
