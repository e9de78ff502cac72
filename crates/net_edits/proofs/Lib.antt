mod Swapped
mod Laying
mod Alikes
mod Restands
mod Acts
mod Fresh
mod RowsGrown
mod TiesGrown
pub mod NetGrown
mod PadsOver
pub mod NetLed
pub mod Pushed
mod Pushing
pub mod Linked
pub mod Parted
pub mod Ended
mod Lefts
mod Rowed
mod Exchanged
mod LanesMore
mod Beside
mod Differing
pub mod Endings
mod Frozen
mod Added
pub mod Empties
pub mod Feds
pub mod Turned
mod Both
mod Together
