pub mod Places
pub mod Changes
pub mod Leads
pub mod Seeing
pub mod Openings
pub mod Inside
pub mod Feeding
pub mod Stickies
