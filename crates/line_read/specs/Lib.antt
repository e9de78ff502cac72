pub mod Lines
pub mod Requests
pub mod Refusals
pub mod Scripts
pub mod Laws
