pub mod Denoted
pub mod Stands
pub mod Ends
pub mod Gives
pub mod Holds
pub mod Joins
pub mod Made
pub mod Passing
