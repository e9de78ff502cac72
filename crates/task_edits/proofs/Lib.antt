mod LinksMade
pub mod Earlier
mod Firsts
pub mod Padding
pub mod Wiring
pub mod Acts
pub mod Insides
mod NewLanes
pub mod Absent
pub mod Seen
mod Opens
mod Elements
mod StickyLists
pub mod Feeds
