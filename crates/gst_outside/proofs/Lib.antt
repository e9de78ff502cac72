pub mod Entries
mod Reading
pub mod Writing
