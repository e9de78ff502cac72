pub mod Fronts
pub mod Faults
