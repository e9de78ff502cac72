pub mod Crossed
pub mod Again
pub mod Accepted
