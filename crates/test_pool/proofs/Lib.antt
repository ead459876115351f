mod OnePage
mod TwoAreas
