pub mod Lane
pub mod Laws
pub mod Moves
pub mod Room
