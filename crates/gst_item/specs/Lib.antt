pub mod Flow
pub mod Item
pub mod Sticky
pub mod Held
pub mod Lent
