pub mod Bodies
pub mod Choice
pub mod Converted
pub mod Converts
pub mod Placed
pub mod Puts
pub mod Raw
pub mod Refused
