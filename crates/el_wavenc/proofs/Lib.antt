pub mod Accepted
pub mod Encoding
pub mod Putting
pub mod Steps
pub mod WholeFile
