pub mod Kept
pub mod Selections
pub mod Selects
pub mod Laws
