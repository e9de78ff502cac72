pub mod Lists
mod Finds
pub mod Wiring
pub mod Regrouped
mod Merging
mod Sending
mod Joins
mod Swapped
mod Closing
pub mod Within
pub mod Taken
pub mod Halves
mod Parting
mod Flags
mod Entered
mod Parts
mod Most
pub mod Rooms
mod Speaking
