pub mod Lists
mod Outs
mod FirstOut
mod Turns
mod Moves
pub mod Tries
pub mod Fronts
pub mod Idling
