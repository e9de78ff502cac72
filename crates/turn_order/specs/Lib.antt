pub mod Draws
pub mod Turns
