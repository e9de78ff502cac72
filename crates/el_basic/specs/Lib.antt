pub mod Filtered
pub mod Filters
pub mod Passed
pub mod Spread
pub mod Valved
pub mod Valves
