pub mod Line
pub mod Command
pub mod Said
pub mod Refused
pub mod Law
