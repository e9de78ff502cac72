pub mod Alone
pub mod Ends
pub mod Net
pub mod Rests
pub mod Turns
