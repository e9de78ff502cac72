pub mod Kept
pub mod Cutting
mod Steps
mod Numbers
