pub mod AreaMapped
pub mod Place
pub mod Sources
