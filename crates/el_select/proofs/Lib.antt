pub mod Sticking
pub mod Placing
pub mod Showing
pub mod Owing
pub mod Knowing
pub mod Keeping
pub mod Standing
pub mod Selecting
pub mod Telling
pub mod Ordered
mod Rows
