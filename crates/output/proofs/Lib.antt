mod Fronts
pub mod Back
