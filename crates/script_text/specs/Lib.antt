pub mod Refusals
pub mod Commands
pub mod Lines
pub mod Scripts
pub mod Latest
pub mod Laws
pub mod Rows
