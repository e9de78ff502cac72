pub mod Appending
pub mod Losing
pub mod Moving
pub mod Results
pub mod Lessens
mod Emptying
