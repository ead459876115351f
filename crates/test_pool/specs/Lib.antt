pub mod OnePage
pub mod TwoAreas
