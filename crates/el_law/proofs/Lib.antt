pub mod Accepted
pub mod Decoding
pub mod Pieces
pub mod Putting
pub mod Recoding
pub mod Grouped
