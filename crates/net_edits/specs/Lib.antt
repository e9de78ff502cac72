pub mod Nets
pub mod Seeing
pub mod Over
pub mod NewLanes
pub mod Adding
pub mod Inside
pub mod Ending
