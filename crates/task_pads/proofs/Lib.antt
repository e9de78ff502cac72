pub mod Lists
mod Spreads
mod Waiting
mod Sent
pub mod Few
