pub mod Beginnings
pub mod Wholes
