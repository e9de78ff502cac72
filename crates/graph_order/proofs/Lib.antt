pub mod Parted
pub mod Reached
pub mod Once
pub mod Same
