pub mod Disks
pub mod Pieces
