pub mod Ends
pub mod Closing
pub mod Opening
pub mod Stopping
