pub mod Alone
pub mod Media
pub mod Packing
pub mod Segments
pub mod Templates
