pub mod Denoted
pub mod Joined
pub mod Near
pub mod Running
pub mod Stepping
pub mod Turns
