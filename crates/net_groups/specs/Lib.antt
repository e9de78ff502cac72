pub mod Places
pub mod Lanes
pub mod Joined
pub mod Behind
pub mod Splits
pub mod Told
