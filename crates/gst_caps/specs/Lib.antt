pub mod Merge
pub mod Passes
pub mod Values
pub mod Description
pub mod Accepts
pub mod Common
pub mod Caps
pub mod Same
