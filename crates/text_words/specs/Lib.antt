pub mod Bytes
pub mod Words
pub mod Left
pub mod Values
pub mod Rows
