pub mod Change
pub mod Between
