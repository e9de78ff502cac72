pub mod Companding
pub mod Laws
pub mod Puts
pub mod Recoded
