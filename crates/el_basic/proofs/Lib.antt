pub mod Again
pub mod Filtering
pub mod Passing
mod Rows
pub mod Spreading
pub mod Valving
