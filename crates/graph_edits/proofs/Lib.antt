pub mod Standing
pub mod KindThere
pub mod Laws
pub mod Rows
pub mod Grown
pub mod Keeping
pub mod Staying
pub mod Following
pub mod LinksStanding
pub mod Ending
pub mod Ended
pub mod LiveElements
mod Ordering
