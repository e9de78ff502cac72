pub mod Ended
pub mod Made
pub mod Owes
pub mod Ruled
pub mod Stands
