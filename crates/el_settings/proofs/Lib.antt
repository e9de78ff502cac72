pub mod Numbers
pub mod Roles
pub mod Allowing
pub mod Given
pub mod Faults
pub mod Copied
pub mod OneSet
pub mod Padded
