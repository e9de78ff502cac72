pub mod Pads
pub mod Links
