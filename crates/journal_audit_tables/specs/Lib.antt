pub mod Coming
pub mod Gathered
pub mod Missing
pub mod Moved
pub mod Numbers
