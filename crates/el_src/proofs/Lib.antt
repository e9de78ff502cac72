mod Answering
pub mod Blocks
mod Counting
pub mod Filling
pub mod Ramping
mod Samples
mod Shortening
