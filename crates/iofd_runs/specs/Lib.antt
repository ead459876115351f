pub mod Apart
pub mod Few
pub mod Fits
pub mod InUsable
pub mod Owned
pub mod PinsFit
pub mod Rising
pub mod Tabled
