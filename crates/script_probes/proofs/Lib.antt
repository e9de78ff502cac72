pub mod Members
pub mod Gathered
pub mod Maps
pub mod Waiting
pub mod Once
