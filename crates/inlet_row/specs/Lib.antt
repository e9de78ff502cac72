pub mod Ends
pub mod Feed
pub mod Left
pub mod Row
pub mod Take
pub mod Taken
